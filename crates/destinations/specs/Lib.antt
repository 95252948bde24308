pub mod Destinations
pub mod Slots
