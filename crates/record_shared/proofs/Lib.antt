pub mod Belong
pub mod Pieces
