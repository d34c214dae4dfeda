pub mod Sbox
