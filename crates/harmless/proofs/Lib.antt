pub mod Depth
pub mod Theorem
