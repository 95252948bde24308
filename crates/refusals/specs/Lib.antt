pub mod Faults
pub mod Refusals
pub mod Stages
pub mod Limited
pub mod Answers
pub mod Modest
