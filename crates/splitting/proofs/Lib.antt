pub mod Spans
pub mod Walk
pub mod Numbers
pub mod Shapes
pub mod Copies
pub mod Packs
pub mod Kept
