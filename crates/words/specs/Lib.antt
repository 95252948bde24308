pub mod Bytes
pub mod Signed
