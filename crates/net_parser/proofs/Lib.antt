pub mod Expressions
pub mod ItemParts
pub mod Leaves
pub mod TextFaults
pub mod Heads
