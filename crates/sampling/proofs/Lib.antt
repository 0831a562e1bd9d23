pub mod Order
pub mod Rows
pub mod Best
pub mod Writing
