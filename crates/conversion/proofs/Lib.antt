pub mod Again
pub mod Back
pub mod Examples
pub mod Forward
pub mod Same
pub mod Theorem
