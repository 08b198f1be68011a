pub mod Formulas
pub mod Steps
pub mod Runs
pub mod Inner
