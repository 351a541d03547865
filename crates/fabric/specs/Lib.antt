pub mod Layouts
pub mod Meshes
pub mod Ports
pub mod Places
pub mod Refusals
pub mod Verdicts
pub mod Grid
