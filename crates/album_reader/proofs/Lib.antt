pub mod Judged
pub mod Reading
pub mod Held
