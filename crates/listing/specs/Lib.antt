pub mod Forms
pub mod Lists
pub mod Promise
