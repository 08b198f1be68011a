pub mod Pools
pub mod Measures
