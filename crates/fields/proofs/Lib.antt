pub mod Tests
pub mod Computed
pub mod Every
pub mod Values
pub mod Width
pub mod Weights
pub mod Behind
pub mod Inner
