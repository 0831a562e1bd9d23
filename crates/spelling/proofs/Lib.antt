pub mod Running
pub mod States
pub mod Words
