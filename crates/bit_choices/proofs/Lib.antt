pub mod OfSymbols
pub mod OfValues
pub mod OfElements
pub mod OfRanges
