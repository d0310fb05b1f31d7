pub mod Slots
pub mod Blocks
pub mod Held
pub mod Adding
pub mod Assignments
