pub mod WordTests
pub mod WordValues
pub mod WordBytes
