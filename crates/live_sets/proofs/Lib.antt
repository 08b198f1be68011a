pub mod Bits
pub mod Slices
pub mod Shared
pub mod Kept
