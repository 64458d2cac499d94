pub mod Changing
mod Copied
pub mod Counts
mod Held
mod Kept
mod Looked
mod Marked
pub mod Reaching
pub mod Running
pub mod Same
mod Signed
pub mod States
