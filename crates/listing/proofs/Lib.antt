pub mod ListingLaws
pub mod Longest
pub mod NumberLaws
