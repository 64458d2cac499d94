pub mod Counting
pub mod Lanes
pub mod Lengths
pub mod Past
pub mod Steps
pub mod Totals
