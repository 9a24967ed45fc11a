pub mod Minimal
pub mod Answers
