pub mod Register
pub mod Actual
pub mod Cases
pub mod Worked
