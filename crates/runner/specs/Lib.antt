pub mod Answering
pub mod Listing
pub mod Progress
pub mod Tallies
