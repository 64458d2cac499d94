pub mod Symbols
pub mod Runs
