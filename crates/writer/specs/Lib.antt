pub mod Rows
pub mod Regions
pub mod Cost
pub mod Held
pub mod Steps
pub mod Staged
