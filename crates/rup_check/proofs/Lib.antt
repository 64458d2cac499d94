pub mod Keeping
mod Leading
mod Rounds
mod Walking
