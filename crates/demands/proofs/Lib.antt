-- what every file below cites
pub mod Through
-- demand 1
pub mod Answering
pub mod WhichNumber
pub mod EveryCallAnswers
pub mod UniqueOutcomes
pub mod CameRound
pub mod Retired
pub mod Steps
-- demand 2
pub mod ModesBack
pub mod ThereAndBack
pub mod InPieces
pub mod Workers
pub mod Halves
pub mod EngineUnseen
-- demand 3, and what the demands were for
pub mod OneBlockRefused
pub mod EditionOpens
pub mod OnTheShelf
pub mod InTheJournal
pub mod HashKeys
-- the worked table and the imposters
pub mod Worked
pub mod Imposters
pub mod JournalImposters
