pub mod Cells
pub mod Nets
