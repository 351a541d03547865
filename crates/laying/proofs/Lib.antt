pub mod Laying
pub mod Single
