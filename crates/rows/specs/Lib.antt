pub mod Shape
pub mod Text
pub mod Columns
pub mod Reading
pub mod Writing
pub mod Widths
pub mod Entries
pub mod Again
