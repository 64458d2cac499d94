pub mod Keeping
pub mod Limiting
pub mod Tracking
pub mod Waiting
