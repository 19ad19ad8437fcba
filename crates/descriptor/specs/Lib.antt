pub mod Bytes
pub mod Grammar
pub mod Machine
pub mod Meaning
pub mod Names
pub mod Words
