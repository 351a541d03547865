pub mod Cables
pub mod Levels
pub mod Tables
pub mod Laws
pub mod Plans
