pub mod Laws
pub mod Decimal
pub mod Signed
pub mod Put
pub mod Kept
