pub mod Extracts
pub mod Sets
pub mod Extraction
pub mod Taken
pub mod Inner
