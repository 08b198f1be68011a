-- What no public contract cites.
pub mod Jobs
pub mod Adding
pub mod Stocks
