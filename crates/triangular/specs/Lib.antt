pub mod Spaces
pub mod Search
pub mod Readings
pub mod Memory
pub mod Bases
