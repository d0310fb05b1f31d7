pub mod Each
pub mod Follow
