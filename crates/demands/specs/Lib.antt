-- what every file below is written with
pub mod Names
pub mod Call
-- demand 1
pub mod Answered
pub mod WhichNumber
pub mod OneOutcome
pub mod NoUsableKey
pub mod CameRound
pub mod Retired
pub mod Steps
-- demand 2
pub mod ThereAndBack
pub mod InPieces
-- demand 3, and what the demands were for
pub mod OneBlockRefused
pub mod EditionOpens
pub mod Workers
pub mod OnTheShelf
pub mod InTheJournal
pub mod Halves
pub mod HashKeys
pub mod EngineUnseen
-- the worked table and the imposters
pub mod Worked
pub mod Edges
pub mod Imposters
pub mod JournalImposters
