pub mod Constants
pub mod Contexts
pub mod Intervals
pub mod Kinds
pub mod Spans
