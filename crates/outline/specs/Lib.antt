pub mod Raw
pub mod Parts
pub mod Outlined
