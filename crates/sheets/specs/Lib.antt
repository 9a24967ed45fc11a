pub mod Sheets
pub mod Six
pub mod Answers
pub mod inner
