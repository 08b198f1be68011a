-- What functions of the crate tell one another.
pub mod Sums
