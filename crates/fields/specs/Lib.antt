pub mod Bytes
pub mod Numbers
pub mod Accounts
pub mod Kids
pub mod Words
