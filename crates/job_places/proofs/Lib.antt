pub mod Counts
mod Growing
