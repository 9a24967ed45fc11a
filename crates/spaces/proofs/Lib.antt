pub mod Behind
pub mod Rows
pub mod Grams
pub mod Shrinks
pub mod Passing
pub mod Levels
