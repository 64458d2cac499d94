pub mod Books
pub mod Hands
pub mod Meetings
pub mod Tasks
