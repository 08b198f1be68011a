-- What no public contract cites: what the functions of the crate tell one another, and what only
-- proofs speak of.
pub mod Asked
pub mod Flags
pub mod Listed
