pub mod Horner
pub mod Roots
pub mod OneHash
pub mod BlocksTell
pub mod Told
pub mod FewConfuse
pub mod EveryElement
