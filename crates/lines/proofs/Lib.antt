pub mod Cuts
pub mod Laid
pub mod Decimals
pub mod Spelling
pub mod Loads
pub mod Fits
