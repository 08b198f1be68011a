mod Declarations
mod Expressions
mod Rooms
mod Statements
pub mod TextFaults
