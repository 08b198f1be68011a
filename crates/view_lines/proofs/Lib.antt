pub mod Laws
pub mod Endings
pub mod Giving
