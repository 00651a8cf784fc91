pub mod Costs
pub mod Globals
pub mod Records
pub mod Fitness
