pub mod Known
pub mod Reading
pub mod Moves
pub mod Walks
pub mod Arrivals
pub mod Inner
