pub mod Again
pub mod Begun
pub mod Followed
pub mod Found
mod Looked
pub mod PaidBad
pub mod Tried
pub mod Walked
