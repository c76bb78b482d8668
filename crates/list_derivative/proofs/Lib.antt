pub mod Judged
pub mod Derived
