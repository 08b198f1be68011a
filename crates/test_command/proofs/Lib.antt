pub mod Runs
pub mod Trees
pub mod Leaving
pub mod Values
pub mod Right
pub mod TestLaws
pub mod Answering
