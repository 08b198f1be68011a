-- What no public contract cites.
pub mod Faults
pub mod Viewed
pub mod Sizes
