pub mod Words
pub mod Answers
pub mod Fields
pub mod Field
