pub mod Names
pub mod Reading
pub mod Lists
pub mod Numbers
