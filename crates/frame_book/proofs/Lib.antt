pub mod Accepted
pub mod Backed
pub mod Entering
pub mod Marking
pub mod Opening
pub mod Picked
pub mod Sane
pub mod Turning
