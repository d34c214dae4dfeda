pub mod Chain
pub mod Cut
pub mod Undo
pub mod Loop
pub mod Batch
