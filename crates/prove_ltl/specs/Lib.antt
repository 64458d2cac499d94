pub mod Lengths
pub mod Searching
pub mod Rungs
pub mod LtlAnswers
pub mod Climbing
pub mod Early
pub mod Sought
pub mod Leaping
