pub mod Machines
pub mod Assembled
pub mod Disassembled
pub mod Laws
pub mod Inner
