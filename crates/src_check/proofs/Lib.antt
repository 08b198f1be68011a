pub mod Tables
pub mod Weights
pub mod Ranges
pub mod Walks
pub mod Lengths
