pub mod Cutting
pub mod Kinded
pub mod Lowering
pub mod Lengths
pub mod Deciding
