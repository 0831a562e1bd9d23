pub mod PlanBytes
pub mod PlanDone
mod Row
mod StoredByKinds
mod Stored
pub mod TableMarks
pub mod Writing
