pub mod Codes
pub mod Book
pub mod Lookups
pub mod inner
