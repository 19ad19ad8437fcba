pub mod Own
pub mod Head
pub mod Supplied
