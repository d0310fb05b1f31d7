pub mod Bounds
pub mod Found
