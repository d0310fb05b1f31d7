pub mod Wrote
pub mod Widths
