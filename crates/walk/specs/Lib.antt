pub mod Walk
pub mod Reached
