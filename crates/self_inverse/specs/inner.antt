pub mod Peels
