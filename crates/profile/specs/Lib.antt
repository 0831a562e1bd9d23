pub mod Weights
pub mod Profiles
pub mod Errors
