pub mod FillLaws
pub mod KeyLaws
pub mod SearchLaws
