pub mod Words
pub mod Montgomery
