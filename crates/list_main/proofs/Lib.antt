pub mod Digits
pub mod Lines
pub mod Reading
pub mod Laws
pub mod ReadBack
pub mod LineEach
pub mod Examples
