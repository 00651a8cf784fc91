pub mod Puts
pub mod Splices
pub mod Packed
pub mod Heads
pub mod Ids
