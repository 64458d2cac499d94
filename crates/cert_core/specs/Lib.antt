pub mod Blocks
pub mod Certificates
