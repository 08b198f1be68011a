pub mod Counts
pub mod Operators
pub mod Ranges
pub mod Worked
pub mod Faults
