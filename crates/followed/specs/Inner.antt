-- What no public contract cites: what the functions of the crate tell one another, and what only
-- proofs speak of.
pub mod Memories
pub mod Ascending
pub mod Coded
pub mod Hinted
pub mod Led
