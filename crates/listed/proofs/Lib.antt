pub mod Answers
pub mod Inputs
pub mod Unique
pub mod Buffers
pub mod Worked
