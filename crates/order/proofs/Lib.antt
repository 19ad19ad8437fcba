pub mod Again
pub mod Facts
pub mod Follows
pub mod Leaves
pub mod Reading
pub mod Theorem
