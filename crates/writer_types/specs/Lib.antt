pub mod Arrays
pub mod Members
pub mod Inner
pub mod Costs
pub mod Tested
