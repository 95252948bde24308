pub mod Agree
pub mod Marked
pub mod Right
pub mod Steps
