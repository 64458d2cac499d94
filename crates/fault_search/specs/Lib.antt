pub mod Answering
pub mod Paying
