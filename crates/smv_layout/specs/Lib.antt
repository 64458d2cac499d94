pub mod Arrays
pub mod Indices
pub mod Layout
pub mod Sizes
pub mod Nodes
pub mod Answers
