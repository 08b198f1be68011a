pub mod FieldLaws
pub mod SumNumbers
pub mod SettingLaws
pub mod PlainLaws
pub mod SumLaws
pub mod ShapeLaws
pub mod TreeLaws
pub mod NeedLaws
pub mod WideLaws
pub mod Zips
pub mod Spaces
pub mod Counts
mod WorkedCovers
