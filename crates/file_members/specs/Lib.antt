pub mod Head
pub mod Own
pub mod Supplied
