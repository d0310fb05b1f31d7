pub mod Codes
pub mod Mask
pub mod Free
pub mod Records
