pub mod Reading
pub mod Said
pub mod Sheets
