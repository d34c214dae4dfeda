mod Names
pub mod Held
pub mod Ripple
pub mod LaneNumbers
pub mod CounterDigits
pub mod Columns
pub mod Mixing
pub mod Halves
