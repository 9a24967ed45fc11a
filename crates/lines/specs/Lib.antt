pub mod Lines
pub mod Bytes
