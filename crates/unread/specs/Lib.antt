pub mod Unreads
pub mod Errors
pub mod Written
