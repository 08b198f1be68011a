-- What no public contract cites: what the functions of the crate tell one another, and what only
-- proofs speak of.
pub mod Heads
pub mod Routing
pub mod Lookups
pub mod Gates
pub mod Selects
pub mod Tests
pub mod Verdicts
pub mod Stops
