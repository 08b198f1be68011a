pub mod Each
pub mod NetText
pub mod SrcText
pub mod Worked
