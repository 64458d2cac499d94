pub mod Asserted
pub mod Splits
pub mod Nodes
pub mod Claims
pub mod Deciding
pub mod Gated
pub mod Moving
