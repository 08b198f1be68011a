pub mod Ends
pub mod Puts
pub mod Rooms
pub mod Texts
pub mod Traces
pub mod Watched
pub mod Worked
pub mod Inner
