pub mod Look
pub mod Moves
pub mod Refusals
