pub mod Words
pub mod Rows
pub mod Numbers
pub mod Comments
pub mod Lexemes
pub mod Texts
pub mod Runs
pub mod Written
