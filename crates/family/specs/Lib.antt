pub mod Family
pub mod Checks
pub mod inner
