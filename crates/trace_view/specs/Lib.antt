pub mod Answers
pub mod Svg
pub mod Vcd
pub mod WellFormed
