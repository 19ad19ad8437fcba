pub mod Depth
pub mod Harmless
