pub mod SumSwaps
pub mod Swapping
pub mod SwapLaws
