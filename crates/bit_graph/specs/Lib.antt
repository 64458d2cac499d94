pub mod Meaning
pub mod Values
pub mod Growth
pub mod Sharing
