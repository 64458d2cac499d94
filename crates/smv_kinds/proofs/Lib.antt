mod Choosing
mod Passing
mod Within
