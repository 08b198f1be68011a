mod Lines
mod Dones
mod Remarks
pub mod Whole
mod FirstDone
mod Going
pub mod Once
pub mod Same
mod Telling
