pub mod Marks
pub mod Valuations
pub mod Refusals
