pub mod Types
pub mod Constants
pub mod Globals
