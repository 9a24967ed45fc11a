pub mod Turned
pub mod Asked
pub mod Narrow
pub mod Lined
pub mod Replied
pub mod SixGates
