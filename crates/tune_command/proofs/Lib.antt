pub mod PlainLemmas
pub mod FaultLemmas
pub mod WithinLemmas
