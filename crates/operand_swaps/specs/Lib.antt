pub mod Swaps
pub mod Sides
pub mod Laws
pub mod Worked
pub mod Inner
