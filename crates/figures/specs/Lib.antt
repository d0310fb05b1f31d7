pub mod Figures
pub mod Totals
pub mod Groups
