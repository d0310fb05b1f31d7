pub mod Accounts
pub mod Types
