mod Changing
mod Clocking
mod Ends
mod Lines
mod Fronts
mod Halving
pub mod Putting
mod Rooms
mod Seeing
mod Starting
