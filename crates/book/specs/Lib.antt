pub mod Book
pub mod Decode
pub mod Encode
pub mod Errors
pub mod Form
pub mod Nodes
