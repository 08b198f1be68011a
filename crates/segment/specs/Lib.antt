pub mod Runs
pub mod Copied
pub mod Proved
pub mod Asked
pub mod Timed
