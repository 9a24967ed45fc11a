pub mod Entries
pub mod Checks
