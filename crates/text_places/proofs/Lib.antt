pub mod LineLemmas
