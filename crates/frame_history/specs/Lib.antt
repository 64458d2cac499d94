pub mod History
pub mod Limits
