pub mod RowWords
pub mod Loops
pub mod Montgomery
