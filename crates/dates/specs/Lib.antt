pub mod Dates
pub mod Windows
