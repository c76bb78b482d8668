pub mod Judged
pub mod Records
