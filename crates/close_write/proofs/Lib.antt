pub mod Within
pub mod Walk
pub mod Files
