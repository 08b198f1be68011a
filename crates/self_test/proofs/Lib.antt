pub mod Counting
pub mod Inner
pub mod Lists
pub mod Looking
pub mod Needs
pub mod Memories
