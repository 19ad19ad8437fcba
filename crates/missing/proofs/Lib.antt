pub mod BitLaws
pub mod ListLaws
