pub mod Cycles
pub mod Reach
pub mod Search
pub mod Turn
