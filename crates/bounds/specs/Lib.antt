pub mod Lateness
pub mod SetUp
pub mod Ways
