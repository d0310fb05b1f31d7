pub mod Slots
pub mod Blocks
