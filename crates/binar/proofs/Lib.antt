pub mod Digits
pub mod Sums
pub mod Dots
pub mod Ones
pub mod Widths
pub mod Counting
pub mod Orders
