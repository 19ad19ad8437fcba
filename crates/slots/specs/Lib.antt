pub mod Made
pub mod Slots
