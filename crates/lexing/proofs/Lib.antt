pub mod Lists
pub mod Runs
pub mod Values
pub mod Scans
pub mod Standing
pub mod TokenLaws
