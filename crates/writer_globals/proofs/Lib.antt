pub mod Notes
pub mod Wrapper
pub mod Inits
pub mod Whole
pub mod Spaces
