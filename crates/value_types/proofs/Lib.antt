pub mod Elements
pub mod Ranges
pub mod Coding
pub mod Hulls
pub mod Texts
