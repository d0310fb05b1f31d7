pub mod Keys
pub mod Bounds
pub mod Loop
