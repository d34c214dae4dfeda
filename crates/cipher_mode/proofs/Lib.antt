pub mod Passed
pub mod Ends
pub mod Refusals
pub mod Opens
