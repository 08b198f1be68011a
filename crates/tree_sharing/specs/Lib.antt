pub mod Sharing
pub mod Inner
