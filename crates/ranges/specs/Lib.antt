pub mod Plan
pub mod Reading
pub mod Range
pub mod ByPlan
pub mod Shares
