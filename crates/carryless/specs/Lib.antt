pub mod Carryless
pub mod Lanes
pub mod Lent
pub mod Product
