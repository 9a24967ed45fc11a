pub mod Questions
pub mod Answered
pub mod Listings
