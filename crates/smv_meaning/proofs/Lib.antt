pub mod Tables
pub mod Items
pub mod Choosing
pub mod Operating
pub mod Turns
pub mod FaultTables
pub mod Given
