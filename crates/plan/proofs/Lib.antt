pub mod Children
pub mod Columns
mod TestsJoined
pub mod Laws
pub mod Rows
pub mod Runnable
pub mod Searches
pub mod Alike
pub mod Steps
