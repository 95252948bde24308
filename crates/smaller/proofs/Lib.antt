pub mod Eased
pub mod Told
pub mod Walked
pub mod Fitting
pub mod Smaller
pub mod Cases
