pub mod Lines
pub mod Draft
