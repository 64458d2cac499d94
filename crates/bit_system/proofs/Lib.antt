pub mod Agreeing
pub mod Frames
pub mod Joining
pub mod OfSides
pub mod Pairs
pub mod Reaching
