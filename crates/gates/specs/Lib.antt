pub mod Sequences
pub mod Answers
pub mod inner
