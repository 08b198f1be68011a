pub mod Reading
pub mod Passed
pub mod Parts
