mod Names
pub mod Blocks
pub mod Lengths
pub mod Join
pub mod JoinedBytes
pub mod Sets
pub mod OneChanged
pub mod ZeroKey
pub mod Changed
pub mod Absorbing
pub mod IvBlocks
