pub mod Examples
pub mod RecordLaws
