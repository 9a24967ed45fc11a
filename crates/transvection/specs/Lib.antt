pub mod Greedy
pub mod inner
