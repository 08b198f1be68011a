mod Examples
pub mod WrittenLemmas
