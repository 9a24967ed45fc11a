pub mod Kernels
pub mod Fixed
pub mod Parts
pub mod Replied
