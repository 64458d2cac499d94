pub mod Decoding
pub mod Preparing
