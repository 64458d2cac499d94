pub mod Joining
pub mod Verdicts
