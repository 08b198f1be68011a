mod Progress
mod Marks
mod Machine
pub mod Whole
pub mod Again
