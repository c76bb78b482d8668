pub mod Rows
pub mod Montgomery
