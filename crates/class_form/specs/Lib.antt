pub mod Form
pub mod Marks
pub mod Parts
