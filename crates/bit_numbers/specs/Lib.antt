pub mod Extremes
pub mod Counts
pub mod Shifts
pub mod Divisions
