mod Names
pub mod RoundTrip
pub mod CounterSteps
pub mod Walks
pub mod Counters
pub mod Ahead
