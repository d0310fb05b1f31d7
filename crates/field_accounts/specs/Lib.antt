pub mod Accounts
pub mod OnTheWay
