pub mod Widths
pub mod Turns
pub mod Fits
pub mod Worked
