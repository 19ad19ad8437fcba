pub mod Answers
pub mod AskLaws
pub mod DispatchLaws
