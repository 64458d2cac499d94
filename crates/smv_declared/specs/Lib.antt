pub mod Constants
pub mod Types
pub mod Refusals
pub mod Limits
pub mod Tally
pub mod Seen
pub mod Closed
