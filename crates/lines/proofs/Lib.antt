pub mod Laws
pub mod Timed
pub mod Ready
