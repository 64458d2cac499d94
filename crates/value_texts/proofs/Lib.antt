pub mod Starts
pub mod Apart
pub mod Codes
pub mod OfReading
pub mod OfElements
pub mod OfMarks
