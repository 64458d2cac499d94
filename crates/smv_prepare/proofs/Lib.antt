pub mod Refusing
pub mod OneItem
