pub mod Order
pub mod Kept
