pub mod RightDual
pub mod Tasks
pub mod Code
pub mod Compiled
pub mod Inner
