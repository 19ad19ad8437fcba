pub mod Answers
pub mod Blocks
pub mod Content
pub mod Examples
pub mod Laws
pub mod RoundTrip
pub mod Zeros
