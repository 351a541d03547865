pub mod Following
pub mod Pigeons
pub mod Refused
pub mod Numbers
