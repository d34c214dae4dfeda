pub mod Stream
pub mod Ends
pub mod Passes
