pub mod Apart
pub mod Seen
