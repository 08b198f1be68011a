pub mod Fits
pub mod Groups
pub mod Runs
pub mod Steps
pub mod Machines
pub mod Writing
pub mod Laws
pub mod Worked
