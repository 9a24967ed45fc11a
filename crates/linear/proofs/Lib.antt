pub mod Sums
pub mod Exchange
pub mod Instances
pub mod Maps
pub mod Rows
