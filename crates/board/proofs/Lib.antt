pub mod Calls
pub mod Isolation
