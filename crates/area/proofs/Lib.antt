pub mod Answers
pub mod AreaLaws
pub mod WalkLaws
