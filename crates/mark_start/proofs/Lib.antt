pub mod Stores
pub mod Learning
pub mod Reading
pub mod Places
pub mod Starting
pub mod Telling
