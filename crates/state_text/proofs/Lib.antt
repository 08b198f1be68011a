mod Storages
mod Starts
pub mod Told
mod Progress
mod Shown
mod Rooms
pub mod Calm
