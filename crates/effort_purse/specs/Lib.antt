pub mod Drawing
pub mod Lending
pub mod LendingLaws
pub mod Plain
pub mod Rule
pub mod Seats
