mod Names
pub mod Stages
pub mod Bytes
pub mod Filling
pub mod Padded
pub mod Blocks
pub mod Before
pub mod Onward
