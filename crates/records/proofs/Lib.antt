pub mod Chain
pub mod Places
pub mod Loop
pub mod Entries
pub mod Ranks
