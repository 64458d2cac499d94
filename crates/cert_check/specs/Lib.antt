pub mod Judgements
pub mod Upgrades
