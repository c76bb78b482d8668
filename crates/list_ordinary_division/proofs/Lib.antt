pub mod Judged
pub mod Forms
