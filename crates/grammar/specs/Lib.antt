pub mod Parses
pub mod Reading
pub mod Tokens
