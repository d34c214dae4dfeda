pub mod AllPadding
pub mod Filled
pub mod Unpadded
pub mod Into
