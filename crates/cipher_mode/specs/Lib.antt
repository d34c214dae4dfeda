pub mod Outcome
pub mod Answer
pub mod Engines
pub mod Key
pub mod Tables
pub mod Checks
pub mod Calls
