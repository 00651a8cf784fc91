pub mod Runs
pub mod Lines
pub mod Examples
pub mod Long
