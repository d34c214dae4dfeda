pub mod Candidates
pub mod Which
