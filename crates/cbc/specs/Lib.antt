pub mod Cbc
pub mod Full
