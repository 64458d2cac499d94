pub mod Ends
pub mod Paying
pub mod Positions
pub mod Queries
pub mod Searching
