pub mod Kinds
pub mod Computed
pub mod Counts
pub mod Log
pub mod Cycle
pub mod Runs
pub mod Promises
