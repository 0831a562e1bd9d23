pub mod Sample
pub mod Parts
