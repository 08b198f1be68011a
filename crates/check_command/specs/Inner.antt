-- What no public contract cites: what the functions of the crate tell one another, and what only
-- proofs speak of.
pub mod Ascending
pub mod Faults
pub mod Marked
pub mod Moves
pub mod Readings
pub mod Sizes
pub mod Stops
