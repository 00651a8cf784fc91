pub mod Layouts
pub mod OneList
pub mod Walks
pub mod Promises
