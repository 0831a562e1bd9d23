pub mod Weighing
pub mod Lowering
pub mod Deciding
