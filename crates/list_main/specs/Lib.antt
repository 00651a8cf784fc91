pub mod Answers
pub mod Words
pub mod Forms
