pub mod Respelled
pub mod Kept
pub mod Inner
