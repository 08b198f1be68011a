-- What no public contract cites: what the functions of the crate tell one another, and what only
-- proofs speak of.
pub mod Modules
pub mod Scopes
pub mod Scans
pub mod Widths
pub mod Cases
pub mod Counts
