pub mod Capabilities
pub mod Modules
