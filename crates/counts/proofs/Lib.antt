pub mod Rises
pub mod Reach
pub mod Rule
pub mod Scanned
pub mod Moves
pub mod Counts
