pub mod Draws
pub mod Epochs
