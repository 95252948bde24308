pub mod Numbers
pub mod Carried
