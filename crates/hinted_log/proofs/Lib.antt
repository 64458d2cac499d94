mod Pieces
pub mod Follow
