pub mod Answers
pub mod Certifying
pub mod Playing
