pub mod Facts
pub mod Growth
pub mod Step
pub mod Order
