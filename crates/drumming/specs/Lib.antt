pub mod Drumming
pub mod Alike
