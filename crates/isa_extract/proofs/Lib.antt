pub mod Cleans
pub mod Extracting
pub mod PlainNames
pub mod RoutedLaws
pub mod RoutedTaken
pub mod OverModes
mod ViewNames
