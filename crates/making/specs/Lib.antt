pub mod Makes
pub mod Bytes
pub mod Settled
pub mod Made
