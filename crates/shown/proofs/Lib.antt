pub mod Laws
pub mod Unique
pub mod Placed
pub mod Buffers
pub mod Worked
