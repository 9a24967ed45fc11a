pub mod All
pub mod Products
pub mod Units
pub mod Values
pub mod Firsts
pub mod Lent
pub mod Overs
pub mod Ranges
