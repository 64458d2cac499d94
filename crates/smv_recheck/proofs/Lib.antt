pub mod Ascii
mod Asking
pub mod CutLines
pub mod Full
mod Reaching
pub mod Gives
pub mod Recording
pub mod Showing
pub mod Stopping
pub mod Writing
