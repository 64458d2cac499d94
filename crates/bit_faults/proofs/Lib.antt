pub mod Bits
mod Judging
pub mod Asking
mod Copying
mod OfFormulas
mod OfItems
mod OfSides
mod Coded
mod Asked
mod Deciding
