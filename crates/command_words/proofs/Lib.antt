pub mod Found
pub mod Ranges
pub mod Said
pub mod Unique
