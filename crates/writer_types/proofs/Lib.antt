pub mod Arrays
pub mod Named
pub mod Putting
pub mod Passes
pub mod Decorating
pub mod Bytes
