pub mod Compiles
pub mod Errors
