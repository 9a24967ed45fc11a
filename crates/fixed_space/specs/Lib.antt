pub mod FixedSpace
pub mod Promises
