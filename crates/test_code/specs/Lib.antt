pub mod Tried
pub mod Codes
pub mod Inner
