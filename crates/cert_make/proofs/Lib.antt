pub mod Models
pub mod Paid
pub mod Pairs
pub mod Refuting
pub mod Sharing
