pub mod Longest
pub mod TextLaws
