pub mod Kept
mod SomeInputs
mod Demanding
mod OfBits
pub mod OfStates
mod OfTold
mod OfItems
