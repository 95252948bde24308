pub mod Places
pub mod Sound
pub mod Written
pub mod Said
