pub mod AtMost
pub mod Confused
