pub mod Forms
pub mod Core
pub mod Loops
pub mod Parts
pub mod Coordinates
pub mod Lengths
