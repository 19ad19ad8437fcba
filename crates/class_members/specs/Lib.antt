pub mod Members
pub mod SheetForm
