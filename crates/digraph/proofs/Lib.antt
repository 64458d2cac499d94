pub mod Steps
pub mod Rounds
pub mod Turning
pub mod Closing
pub mod Reaching
