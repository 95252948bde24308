pub mod Circuit
pub mod Judged
pub mod Read
