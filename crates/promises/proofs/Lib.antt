mod Answers
pub mod Kept
pub mod Listing
pub mod SheetProgram
mod Meant
mod More
mod Outcomes
mod Readers
mod RoundTrips
pub mod Profiled
mod Boards
