pub mod Best
pub mod KeptForms
pub mod Putting
pub mod Turning
