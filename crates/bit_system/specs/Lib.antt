pub mod Building
pub mod Claims
pub mod Conditions
pub mod Sharing
pub mod Standing
