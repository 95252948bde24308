pub mod Calls
pub mod Fine
pub mod Play
pub mod InTurns
pub mod Promises
