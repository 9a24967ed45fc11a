pub mod Shorter
pub mod Promises
pub mod Answers
