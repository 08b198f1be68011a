pub mod Tested
pub mod Refusals
pub mod Texts
pub mod Laws
pub mod Inner
