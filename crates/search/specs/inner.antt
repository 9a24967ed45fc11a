pub mod Levels
pub mod Reports
pub mod Asked
