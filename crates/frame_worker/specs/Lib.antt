pub mod Exploring
pub mod Meeting
pub mod Stopping
pub mod StoppingLaws
pub mod Working
