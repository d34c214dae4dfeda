mod Names
pub mod Accepted
pub mod ByPiece
pub mod Following
pub mod Laying
pub mod OwnPlans
pub mod Places
pub mod Planner
pub mod Sharing
pub mod SideBySide
pub mod Passed
pub mod Jumped
pub mod KeyStream
pub mod Joined
pub mod Copied
pub mod AnyOrder
pub mod Applied
