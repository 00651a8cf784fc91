pub mod Spelling
pub mod Prices
pub mod Ways
pub mod Entries
