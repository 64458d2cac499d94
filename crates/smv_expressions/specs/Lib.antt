pub mod Operators
pub mod Tokens
pub mod Expressions
pub mod Ranks
