pub mod Holding
pub mod Elements
pub mod Counted
pub mod Kept
pub mod Standing
