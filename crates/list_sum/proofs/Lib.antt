pub mod Judged
pub mod Sums
