pub mod Laws
pub mod Again
pub mod Within
pub mod Cases
pub mod Kept
