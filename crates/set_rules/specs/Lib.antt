pub mod Known
pub mod SetRules
pub mod Valid
