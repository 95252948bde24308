pub mod BlockField
pub mod Marked
