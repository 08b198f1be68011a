pub mod Said
pub mod Turned
pub mod Passing
pub mod Inner
