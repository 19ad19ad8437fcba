pub mod Laws
pub mod MarkLaws
pub mod PartLaws
pub mod WalkLaws
