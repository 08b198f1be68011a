pub mod Bytes
pub mod Numbers
pub mod Table
pub mod Tokens
pub mod Laws
pub mod Words
pub mod Worked
