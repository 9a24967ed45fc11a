pub mod VectorSpace
pub mod Span
pub mod Maps
pub mod Triangular
