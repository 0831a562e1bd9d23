pub mod Letters
pub mod Lines
pub mod Words
pub mod Writing
