pub mod SelfInverse
pub mod Answers
pub mod Promises
pub mod inner
