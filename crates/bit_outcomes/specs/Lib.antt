pub mod Telling
pub mod Gathering
pub mod Asked
pub mod Fronts
