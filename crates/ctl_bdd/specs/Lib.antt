pub mod Bits
pub mod Places
pub mod Tables
pub mod Controls
pub mod Inner
