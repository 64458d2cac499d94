pub mod Lists
pub mod Integers
pub mod Denoting
pub mod Resizing
pub mod Kinds
