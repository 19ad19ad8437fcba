pub mod Answers
pub mod Examples
pub mod OneClass
pub mod Placed
pub mod SheetForm
pub mod Targets
