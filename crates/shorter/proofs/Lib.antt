pub mod Choices
pub mod Promised
