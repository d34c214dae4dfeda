mod Names
pub mod Cases
pub mod Begun
pub mod Pads
pub mod KeyStream
pub mod Filling
pub mod Fitting
pub mod HashOn
pub mod Passing
pub mod Stepping
pub mod Sealing
pub mod CtrInPieces
pub mod OpensInPieces
pub mod SealInPieces
