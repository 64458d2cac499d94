pub mod Says
pub mod Words
pub mod Forms
pub mod Marks
pub mod Formed
pub mod Trees
pub mod Pieces
pub mod Known
