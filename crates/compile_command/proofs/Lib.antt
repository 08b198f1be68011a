pub mod TaskLemmas
pub mod ReadLemmas
pub mod FittingLemmas
