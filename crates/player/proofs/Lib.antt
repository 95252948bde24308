pub mod Made
pub mod Orders
pub mod Any
