pub mod Records
pub mod Shelf
pub mod Calls
pub mod Steps
