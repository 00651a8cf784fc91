pub mod Patterns
pub mod Equal
