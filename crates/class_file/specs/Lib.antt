pub mod InForm
pub mod Walk
