pub mod Below
pub mod Found
pub mod Looking
pub mod Inside
pub mod Able
