pub mod Forms
pub mod Language
pub mod Levels
pub mod Depending
