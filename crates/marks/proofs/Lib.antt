pub mod Laws
pub mod Short
