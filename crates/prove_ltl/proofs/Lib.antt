mod Alone
mod Beginning
mod Counted
mod Early
mod Ladder
mod Longer
mod Owned
mod Stepping
