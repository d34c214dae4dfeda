pub mod Flow
pub mod Hashing
pub mod Checks
pub mod States
pub mod Calls
