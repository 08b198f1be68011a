-- What no public contract cites: what the functions of the crate tell one another, and what only
-- proofs speak of.
pub mod Choices
pub mod Gates
pub mod Ids
