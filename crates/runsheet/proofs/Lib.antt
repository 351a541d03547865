mod Apart
mod Filling
mod Following
mod Moves
mod Sections
pub mod Single
mod Stopped
