pub mod Banks
pub mod Views
pub mod Keeping
pub mod Clocks
pub mod Inner
pub mod Worked
