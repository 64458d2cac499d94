pub mod Types
pub mod Codes
pub mod Intervals
pub mod Shown
