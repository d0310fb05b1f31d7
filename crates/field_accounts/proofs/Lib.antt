pub mod Weights
pub mod Multiples
