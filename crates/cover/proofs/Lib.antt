mod ChoiceLemmas
mod BeginLemmas
mod BestLemmas
mod OnceLemmas
