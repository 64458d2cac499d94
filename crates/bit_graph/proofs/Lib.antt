pub mod Unique
pub mod Grown
