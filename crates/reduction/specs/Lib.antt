pub mod Columns
pub mod Pivots
pub mod inner
