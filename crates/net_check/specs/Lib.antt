pub mod Worked
pub mod Inner
