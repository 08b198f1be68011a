pub mod Fronts
pub mod Taken
