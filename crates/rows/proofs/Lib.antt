pub mod Turns
pub mod Digits
pub mod Six
pub mod Standing
pub mod Storing
