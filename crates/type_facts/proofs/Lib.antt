pub mod Laws
pub mod Members
pub mod Remaps
