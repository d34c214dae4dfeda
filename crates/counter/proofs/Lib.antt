pub mod Carry
pub mod Round
pub mod Steps
pub mod JumpSteps
pub mod Agree
pub mod Formula
pub mod StepsTell
pub mod Edges
