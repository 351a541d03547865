pub mod Contents
pub mod Orders
