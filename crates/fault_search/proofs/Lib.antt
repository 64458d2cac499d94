pub mod Answered
mod Asked
pub mod Paid
mod Pairs
