pub mod Files
pub mod Answers
