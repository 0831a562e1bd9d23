-- How the weights are found, and which answers they give.
pub mod Raising
pub mod Weighing
pub mod Rows
pub mod Unique
pub mod Some
pub mod Promise
