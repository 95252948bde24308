pub mod Cell
pub mod Field
pub mod Row
pub mod Standing
pub mod Answered
pub mod Kept
