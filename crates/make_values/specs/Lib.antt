pub mod Opening
pub mod Fitting
