pub mod Equal
pub mod Rules
pub mod Meanings
pub mod Classes
pub mod Spelled
pub mod Worked
pub mod Inner
