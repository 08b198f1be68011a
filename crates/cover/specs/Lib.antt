pub mod Jobs
pub mod Best
pub mod Inner
