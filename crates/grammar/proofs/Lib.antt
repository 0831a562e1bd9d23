-- What the rules say of runs, and that without a conflict a run is derived in one way.
pub mod Facts
pub mod Unique
