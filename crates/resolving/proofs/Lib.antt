pub mod Letters
pub mod Lines
pub mod Words
pub mod Placed
pub mod Again
pub mod Nodes
