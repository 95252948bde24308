pub mod Time
pub mod Kinds
pub mod Codes
pub mod Table
