pub mod Values
pub mod Layouts
pub mod Coding
