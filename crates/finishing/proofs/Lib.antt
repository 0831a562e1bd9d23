pub mod Sums
pub mod Behind
pub mod Finishing
pub mod Boards
