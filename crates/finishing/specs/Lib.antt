pub mod Finishing
pub mod Boards
