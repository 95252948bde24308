pub mod Located
pub mod Runs
pub mod Split
pub mod Held
