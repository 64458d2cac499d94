pub mod Plays
pub mod ThreeBits
