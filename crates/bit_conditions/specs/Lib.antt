pub mod Demands
pub mod Keeping
pub mod Inhabited
pub mod Asked
pub mod Told
