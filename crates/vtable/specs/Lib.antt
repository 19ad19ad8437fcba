pub mod Fixed
pub mod Relay
pub mod Tables
