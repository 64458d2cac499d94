mod Keeping
mod Shown
