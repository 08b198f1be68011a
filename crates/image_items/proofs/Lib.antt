pub mod Lists
pub mod Digits
pub mod Laws
pub mod Endings
