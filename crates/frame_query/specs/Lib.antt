pub mod Dropping
pub mod Findings
pub mod Keeping
pub mod KeptProofs
pub mod Lookups
pub mod Trying
