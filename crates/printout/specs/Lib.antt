pub mod Printout
pub mod Pages
pub mod inner
