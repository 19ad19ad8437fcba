pub mod AppendLaws
pub mod EntryLaws
pub mod MethodLaws
