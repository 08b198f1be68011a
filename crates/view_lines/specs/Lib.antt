pub mod Remarks
pub mod Inner
