pub mod NameLaws
pub mod OverLaws
pub mod TopLaws
pub mod TakeLaws
