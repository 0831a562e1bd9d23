pub mod Numbers
pub mod Reads
pub mod Machine
pub mod Ready
pub mod Settled
pub mod Steps
pub mod Results
