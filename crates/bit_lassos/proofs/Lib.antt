pub mod Matching
pub mod Replaying
pub mod Reaching
