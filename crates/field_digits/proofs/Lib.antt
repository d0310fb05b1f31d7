pub mod Values
pub mod Width
pub mod Ahead
