pub mod Hash
pub mod Holding
pub mod Reading
