pub mod Numbers
pub mod Horner
pub mod Digits
pub mod Moves
pub mod TwosComplement
