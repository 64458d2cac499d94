mod OfPlays
mod OfThreeBits
