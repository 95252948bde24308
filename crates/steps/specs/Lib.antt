pub mod Steps
pub mod Reads
pub mod Wired
