pub mod NumberLemmas
pub mod ShapeLemmas
pub mod ExtensionLemmas
pub mod UnaryLemmas
pub mod ValueLemmas
