pub mod Ends
pub mod Counting
pub mod Longest
pub mod Ascii
pub mod Cuts
pub mod ByFirst
