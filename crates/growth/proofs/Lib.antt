pub mod GrowthLaws
pub mod Indices
pub mod Linked
pub mod NewsLaws
pub mod NumberLaws
