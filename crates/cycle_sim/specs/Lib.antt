pub mod Shown
pub mod Clocks
pub mod Trades
pub mod Moded
pub mod Moding
pub mod Inner
