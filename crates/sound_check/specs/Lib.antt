pub mod Judgements
pub mod Questions
