-- What functions of the crate tell one another, and what the proofs speak of.
pub mod Numbers
pub mod Banked
