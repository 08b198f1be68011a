pub mod Keeping
pub mod Costs
pub mod Plans
pub mod ModeWords
pub mod Words
pub mod Worked
pub mod Inner
