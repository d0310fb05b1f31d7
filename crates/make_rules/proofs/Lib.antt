pub mod Chains
pub mod Messages
