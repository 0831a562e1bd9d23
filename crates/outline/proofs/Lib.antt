pub mod Handing
pub mod Counting
pub mod Filling
pub mod Factors
pub mod Sequences
pub mod Rules
pub mod Sheets
