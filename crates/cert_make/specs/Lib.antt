pub mod Making
pub mod Paying
pub mod Trimming
