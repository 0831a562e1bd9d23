pub mod Contents
mod Entries
