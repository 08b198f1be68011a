pub mod Progress
pub mod Cells
pub mod Sums
pub mod Joined
pub mod Held
pub mod Lying
pub mod Sizes
