pub mod Shared
pub mod Reasons
