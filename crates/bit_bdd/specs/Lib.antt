pub mod Diagrams
pub mod Shape
pub mod Memo
