pub mod Layouts
pub mod Parts
pub mod Banked
pub mod Worked
pub mod Inner
