pub mod Integers
pub mod OfResizing
pub mod Bitwise
pub mod OfLogic
pub mod OfSums
pub mod Discretes
pub mod OfWords
pub mod OfNumbers
