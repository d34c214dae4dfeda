pub mod Lanes
pub mod Round
pub mod Counting
