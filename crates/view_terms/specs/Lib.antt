pub mod Terms
pub mod Inner
pub mod Worked
