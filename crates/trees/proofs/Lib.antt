pub mod Owed
pub mod Steps
pub mod ReadTrees
pub mod Ready
pub mod Places
pub mod LookedBack
