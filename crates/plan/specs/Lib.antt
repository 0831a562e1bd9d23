pub mod Form
pub mod Rows
pub mod Errors
