pub mod Numbers
pub mod Sums
pub mod Limbs
