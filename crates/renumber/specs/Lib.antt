pub mod Places
pub mod Renumber
pub mod Steps
