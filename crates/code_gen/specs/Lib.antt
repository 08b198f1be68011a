pub mod Machines
pub mod Blocks
pub mod Trials
pub mod Refusals
pub mod Tasks
pub mod Spelled
pub mod Inner
