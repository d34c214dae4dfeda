mod Names
pub mod Reading
pub mod Walks
pub mod Putting
pub mod Current
pub mod ReadsProper
pub mod Sound
pub mod Keeping
pub mod FoundPart
pub mod AfterPut
