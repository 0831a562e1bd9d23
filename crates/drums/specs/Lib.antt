pub mod Drums
pub mod Sound
pub mod Errors
