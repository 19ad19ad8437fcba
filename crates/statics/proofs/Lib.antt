pub mod Numbering
pub mod Linked
pub mod Standing
pub mod Calls
pub mod Theorem
pub mod Examples
