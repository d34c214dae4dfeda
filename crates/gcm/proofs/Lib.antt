mod Names
pub mod TagTest
pub mod Parts
pub mod RoundTrip
pub mod TagTells
pub mod HashKey
pub mod InWords
pub mod Settled
pub mod Short
