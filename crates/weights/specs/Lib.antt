pub mod Weight
pub mod Falling
pub mod Laws
