pub mod Counted
pub mod Places
pub mod Flags
pub mod Ranks
