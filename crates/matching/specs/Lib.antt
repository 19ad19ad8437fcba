pub mod Filling
pub mod Matching
