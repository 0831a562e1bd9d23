pub mod Slots
pub mod Refusals
pub mod Simulation
pub mod Fold
pub mod Runs
pub mod Bounds
mod WalkUnderWay
mod PartsTakenOff
mod Rows
mod RunUnderWay
pub mod Settles
pub mod Stops
pub mod Answers
pub mod Alike
pub mod Bars
