pub mod Rules
pub mod Derivations
pub mod Passing
