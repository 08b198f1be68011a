mod Values
pub mod Parts
pub mod Numbers
pub mod Steps
pub mod Joined
pub mod Ends
