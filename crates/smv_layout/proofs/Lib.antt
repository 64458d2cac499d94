pub mod Standing
pub mod Indexing
pub mod Giving
pub mod Places
pub mod Laying
pub mod Relaying
pub mod Entering
