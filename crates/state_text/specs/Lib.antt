pub mod Settings
pub mod Shown
pub mod Inner
pub mod Worked
