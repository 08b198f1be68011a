pub mod Lists
pub mod Keys
pub mod Trees
pub mod Fits
pub mod OneEach
pub mod Growth
pub mod CallerLemmas
pub mod Measured
