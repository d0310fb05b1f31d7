pub mod Block
pub mod Weighed
