pub mod Rebuilds
pub mod Answers
