pub mod Costs
pub mod Found
