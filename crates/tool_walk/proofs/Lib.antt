pub mod Grow
pub mod Sound
