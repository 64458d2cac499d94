pub mod Lines
pub mod Open
pub mod Printed
pub mod Reading
pub mod Tokens
