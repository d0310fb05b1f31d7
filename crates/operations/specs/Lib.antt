pub mod Ends
pub mod Closing
pub mod Joining
pub mod Parting
pub mod Making
pub mod Answers
pub mod Promises
