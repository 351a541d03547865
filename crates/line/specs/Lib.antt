pub mod Lines
pub mod Queues
pub mod Runs
