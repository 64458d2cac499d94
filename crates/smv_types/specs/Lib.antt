pub mod Kinds
pub mod Judged
pub mod Briefs
pub mod Rules
