pub mod AddLaws
pub mod BuildLaws
pub mod FixedLaws
pub mod RelayLaws
pub mod SlotLaws
pub mod TableLaws
