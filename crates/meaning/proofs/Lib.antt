-- What the rules' facts say of runs, and that reading keeps to what a book means.
pub mod Parts
pub mod Walk
pub mod Machine
pub mod Size
pub mod Orderly
pub mod Event
pub mod Next
pub mod Run
pub mod Verdict
pub mod Theorem
pub mod Walks
