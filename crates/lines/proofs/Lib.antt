pub mod Bounded
pub mod ByteLaws
pub mod Lengths
pub mod LineLaws
pub mod NameLaws
pub mod OutLaws
pub mod SlotLaws
pub mod Whole
