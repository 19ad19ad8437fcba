pub mod Meaning
pub mod References
