pub mod HalfSums
pub mod Answers
