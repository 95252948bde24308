pub mod Ready
pub mod Stays
pub mod Prepares
pub mod Cases
pub mod NoRule
