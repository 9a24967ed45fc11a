pub mod Matrices
pub mod Words
pub mod inner
