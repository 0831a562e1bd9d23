pub mod Judges
pub mod Conflicts
pub mod Refusals
