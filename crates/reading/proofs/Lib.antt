pub mod ArrayLaws
pub mod ClassLaws
pub mod FixedLaws
pub mod MarkLaws
pub mod ReadLaws
pub mod SlotLaws
