pub mod Running
pub mod Cells
pub mod Stages
