pub mod AbiRules
