pub mod AbiSheet
pub mod Sections
