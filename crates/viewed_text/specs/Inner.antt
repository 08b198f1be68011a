-- What no public contract cites: what the functions of the crate tell one another.
pub mod Behind
