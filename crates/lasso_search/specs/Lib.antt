pub mod Lassos
pub mod Unrolling
pub mod Unrolled
pub mod Paying
pub mod Searches
pub mod Books
