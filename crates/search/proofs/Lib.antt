pub mod Drawing
pub mod LentLevels
pub mod Reduces
pub mod Draws
pub mod Reported
pub mod Going
