pub mod Numbers
pub mod Leaves
pub mod Inner
