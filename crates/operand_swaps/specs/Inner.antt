-- How the code swaps, which no public contract cites.
pub mod LevelSwaps
