pub mod Lacks
pub mod Inner
