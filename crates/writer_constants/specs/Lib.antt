pub mod Entered
pub mod Fitting
pub mod Tested
