pub mod Cones
pub mod Mending
pub mod Questions
pub mod Formulas
pub mod Valuations
