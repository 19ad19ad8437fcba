pub mod Answers
pub mod ReplayLaws
pub mod Demand
pub mod Asked
pub mod Examples
