pub mod Widths
pub mod Numbers
pub mod OfBits
