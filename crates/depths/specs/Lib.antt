pub mod Depths
pub mod Ways
