pub mod AsBefore
pub mod Decoded
pub mod Encoded
pub mod Holding
pub mod Laws
pub mod Rebuilt
mod Types
