pub mod Narrowing
pub mod HeldSteps
pub mod HeldStorages
pub mod Asked
pub mod Found
