pub mod Convert
pub mod Steps
