pub mod Ghash
pub mod Absorbed
pub mod OneBlock
pub mod Joined
pub mod Sets
