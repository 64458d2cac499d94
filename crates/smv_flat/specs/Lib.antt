pub mod Assignments
pub mod Graph
pub mod Marks
pub mod Reads
