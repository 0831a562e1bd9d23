pub mod Samples
pub mod Errors
pub mod Given
