pub mod Traces
pub mod Fitting
pub mod Jobs
pub mod Checked
pub mod PartLaws
pub mod DualLemmas
pub mod Imaged
