-- What no public contract cites: what the functions of the crate tell one another, and what only
-- proofs speak of.
pub mod Coded
pub mod Imaged
pub mod Memories
pub mod Planning
pub mod Registers
pub mod Spelling
pub mod Uncovered
pub mod Views
