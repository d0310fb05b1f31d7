pub mod Passed
pub mod Took
