pub mod Arrays
pub mod Classes
pub mod Tables
