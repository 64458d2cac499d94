pub mod Blocking
pub mod Claimed
mod Claiming
mod Firsts
pub mod Histories
pub mod Joining
pub mod Listed
pub mod Outcomes
pub mod Paid
pub mod Pairs
pub mod Scanned
pub mod Taken
pub mod Turned
pub mod Unspent
