-- The book that a sheet makes derives the runs that the sheet means.
pub mod Words
pub mod Appearance
pub mod Known
pub mod Sizes
pub mod Formed
pub mod Last
pub mod Named
pub mod Derived
pub mod Spelled
