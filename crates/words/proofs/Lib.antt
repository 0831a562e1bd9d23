pub mod Beginnings
pub mod Bytes
pub mod FirstBad
pub mod Lists
pub mod Same
pub mod Stored
pub mod Tests
