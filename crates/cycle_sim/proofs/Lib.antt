pub mod Edges
pub mod Gates
pub mod Runs
pub mod Inlets
pub mod Programs
pub mod Trading
pub mod Moding
pub mod Sims
