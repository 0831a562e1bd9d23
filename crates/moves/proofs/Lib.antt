pub mod Answers
pub mod Laid
pub mod Moved
pub mod Parts
pub mod SameNames
