pub mod Entries
pub mod inner
