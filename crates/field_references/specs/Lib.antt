pub mod Kids
pub mod OnTheWay
