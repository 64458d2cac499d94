pub mod OfIntegers
pub mod OfTests
pub mod OfQuotients
pub mod OfMoves
pub mod OfCounts
pub mod OfOperators
