pub mod Native
