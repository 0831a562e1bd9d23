pub mod Alike
mod Answers
pub mod Unique
pub mod Some
pub mod Promise
pub mod ShutOut
