pub mod Parts
pub mod Calls
pub mod Tests
pub mod Steps
