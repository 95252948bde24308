pub mod Connectors
pub mod Codes
pub mod Named
