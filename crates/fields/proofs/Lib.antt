pub mod Numbers
pub mod Octets
pub mod Arrays
