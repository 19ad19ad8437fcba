pub mod AddedLaws
pub mod MovedLaws
pub mod NumberLaws
pub mod OutcomeLaws
pub mod RuntimeLaws
