pub mod Standing
pub mod Under
pub mod Drumming
pub mod Alike
