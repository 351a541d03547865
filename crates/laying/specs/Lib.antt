pub mod Layings
pub mod Reports
