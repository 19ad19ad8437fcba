pub mod AddLaws
pub mod FoundLaws
pub mod ViewLaws
