pub mod Kept
pub mod OfMembers
pub mod OfChoices
pub mod OfFronts
pub mod OfOperands
pub mod OfAsked
pub mod OfNodes
pub mod OfTable
