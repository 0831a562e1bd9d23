pub mod Listing
pub mod Worked
