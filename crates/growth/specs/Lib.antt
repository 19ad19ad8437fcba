pub mod Growth
pub mod News
