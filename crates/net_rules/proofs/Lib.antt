pub mod Texts
pub mod Scans
pub mod Rows
pub mod Bits
pub mod Counts
pub mod Faults
pub mod RowNumbers
pub mod Inputs
