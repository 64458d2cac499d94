pub mod Marking
pub mod Parting
pub mod Spreading
pub mod Occurring
pub mod Listing
