pub mod Abis
