pub mod Counter
pub mod CameRound
