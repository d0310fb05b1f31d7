pub mod Tests
pub mod Computed
pub mod Every
pub mod Listed
