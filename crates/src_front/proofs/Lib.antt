pub mod FrontLaws
pub mod Lengths
pub mod SourceNames
