pub mod Findings
pub mod Rules
pub mod Rows
