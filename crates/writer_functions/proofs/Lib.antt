pub mod Ways
pub mod Signatures
