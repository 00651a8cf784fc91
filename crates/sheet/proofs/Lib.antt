pub mod Hashes
pub mod Hashing
pub mod Earlier
pub mod Adding
pub mod Order
pub mod Told
