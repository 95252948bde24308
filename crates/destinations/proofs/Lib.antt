pub mod Filled
pub mod Published
pub mod Decided
pub mod Bits
pub mod Kept
