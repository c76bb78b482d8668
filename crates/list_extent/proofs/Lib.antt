pub mod Judged
pub mod Trimmed
