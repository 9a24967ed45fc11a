pub mod Lines
pub mod Checks
pub mod SixGates
