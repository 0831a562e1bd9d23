pub mod Board
pub mod Sequences
