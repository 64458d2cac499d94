pub mod Listing
pub mod Prepared
pub mod Records
pub mod Report
pub mod Streams
pub mod Texts
pub mod Written
