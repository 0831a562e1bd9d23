pub mod Beginnings
pub mod Lists
pub mod Words
