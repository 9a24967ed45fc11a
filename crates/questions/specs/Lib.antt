pub mod Replies
pub mod Answers
