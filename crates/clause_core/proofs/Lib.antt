pub mod Definitions
pub mod Lists
pub mod Live
pub mod Opposing
mod Pieces
pub mod LeastSets
pub mod Satisfied
pub mod Seen
pub mod Setting
pub mod Sound
