pub mod Sweeps
pub mod Plain
