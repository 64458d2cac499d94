pub mod OfTypes
pub mod OfValues
pub mod OfSlots
pub mod Codes
pub mod Walking
pub mod Edges
