pub mod Decoded
pub mod Held
