pub mod Asked
pub mod Ciphers
pub mod Marks
pub mod Modes
pub mod Recorded
pub mod Steps
pub mod Values
