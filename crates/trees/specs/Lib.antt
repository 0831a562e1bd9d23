pub mod Trees
pub mod Machine
pub mod Back
