pub mod Judged
pub mod Forms
pub mod Answers
