pub mod Apart
pub mod Asking
pub mod Lists
pub mod Outcomes
pub mod Paying
