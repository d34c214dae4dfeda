pub mod Rows
pub mod Transposed
