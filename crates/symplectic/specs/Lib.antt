pub mod Turns
pub mod Picks
pub mod Sizes
pub mod Matches
pub mod NoneShorter
pub mod inner
