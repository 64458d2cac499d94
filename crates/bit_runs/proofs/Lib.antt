pub mod Framing
pub mod Replaying
