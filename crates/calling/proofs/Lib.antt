pub mod Drum
pub mod Board
pub mod Runs
pub mod Fresh
