pub mod Stops
pub mod Summary
pub mod Summing
pub mod Summaries
pub mod Worked
pub mod Inner
