mod Agendas
pub mod Blocked
pub mod Orderly
mod Retired
mod Tabled
