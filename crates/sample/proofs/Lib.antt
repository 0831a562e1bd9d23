pub mod Answers
pub mod Unique
pub mod Some
pub mod Promise
