pub mod Tags
pub mod Walk
pub mod Rising
pub mod Listed
