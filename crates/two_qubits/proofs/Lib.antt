pub mod Codes
pub mod Lookups
pub mod Computed
pub mod Packed
pub mod Counts
pub mod Complete
pub mod Right
pub mod Agrees
