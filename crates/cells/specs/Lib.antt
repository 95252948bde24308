pub mod Cells
pub mod Again
