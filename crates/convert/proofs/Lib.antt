pub mod Calls
pub mod Few
pub mod Forms
pub mod Judging
