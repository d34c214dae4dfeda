pub mod Gcm
pub mod Pads
