mod OfEntries
mod OfPrinted
mod OfRead
mod OfReading
