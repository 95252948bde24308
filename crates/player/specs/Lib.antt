pub mod Orders
pub mod Numbers
