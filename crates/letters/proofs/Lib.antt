pub mod Spelling
pub mod Pairs
