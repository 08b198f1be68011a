pub mod Adding
pub mod Fitting
pub mod Lengths
pub mod Plain
