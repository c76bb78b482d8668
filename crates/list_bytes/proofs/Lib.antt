pub mod Fits
pub mod Rows
pub mod Judged
pub mod Answers
pub mod Calls
