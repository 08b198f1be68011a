pub mod FormulaLemmas
pub mod FlowLemmas
pub mod ResolveLemmas
pub mod TableLemmas
pub mod LaidLemmas
pub mod BuildLemmas
pub mod AssembleLemmas
pub mod BlockLemmas
mod CountLemmas
