pub mod Listing
pub mod Small
