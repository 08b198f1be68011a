-- What no public contract cites: what the functions of the crate tell one another, and what only
-- proofs speak of.
pub mod Blocks
pub mod Code
pub mod Forks
pub mod Jobs
pub mod Known
pub mod Laid
