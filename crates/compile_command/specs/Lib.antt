pub mod Tasks
pub mod Code
pub mod Compiled
pub mod Read
pub mod Inner
