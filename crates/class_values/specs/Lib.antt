pub mod Values
pub mod Operators
pub mod Symbols
pub mod Room
pub mod Inner
