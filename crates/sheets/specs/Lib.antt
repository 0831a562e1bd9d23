pub mod Text
pub mod Grammar
pub mod Nodes
pub mod Kinds
pub mod Spelling
pub mod Meaning
pub mod Made
