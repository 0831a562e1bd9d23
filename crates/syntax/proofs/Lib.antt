-- Reading a sheet byte by byte finds the sheets and no others, and stops at the first byte at which no sheet begins so.
pub mod Bytes
pub mod Scanned
pub mod Steps
pub mod Signs
pub mod Comes
pub mod Runs
pub mod SheetsRead
pub mod UnderWay
pub mod ReadSheets
pub mod Completed
pub mod WrongPlaces
pub mod Outcomes
