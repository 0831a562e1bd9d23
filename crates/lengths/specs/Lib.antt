pub mod Least
pub mod Measures
pub mod Falling
