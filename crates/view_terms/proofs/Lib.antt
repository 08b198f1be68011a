mod Words
pub mod Laws
pub mod Giving
