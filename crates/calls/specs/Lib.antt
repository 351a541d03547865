pub mod Fits
pub mod Records
pub mod Steps
pub mod Follow
pub mod Midway
pub mod Networks
