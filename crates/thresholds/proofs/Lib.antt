pub mod Scale
pub mod Shifted
pub mod Apart
