pub mod Staging
pub mod Ways
pub mod Entering
pub mod Fitting
pub mod Records
