pub mod Chains
pub mod Passes
pub mod Searches
pub mod Verdicts
