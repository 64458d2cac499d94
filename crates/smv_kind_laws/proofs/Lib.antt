pub mod Between
pub mod Fitting
pub mod Giving
pub mod Kept
pub mod Members
pub mod Told
