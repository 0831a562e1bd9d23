pub mod Alike
pub mod Books
pub mod Unique
pub mod Passing
pub mod Clashes
pub mod Lowest
pub mod Answers
pub mod Some
