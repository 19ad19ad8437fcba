pub mod JudgeLaws
pub mod Laws
pub mod ReadLaws
pub mod WriteLaws
