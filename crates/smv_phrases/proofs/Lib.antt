pub mod KindNumbers
pub mod EachKind
pub mod OfNames
pub mod OfLists
pub mod Repeats
pub mod Folds
