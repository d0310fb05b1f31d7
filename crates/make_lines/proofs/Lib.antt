pub mod Numbers
pub mod Pieces
pub mod Counting
pub mod Caps
pub mod Made
pub mod Drafts
pub mod Saved
