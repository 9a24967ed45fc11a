pub mod Lengths
pub mod Shortest
pub mod Ends
pub mod Replies
pub mod Answered
pub mod Outcomes
pub mod Remembering
