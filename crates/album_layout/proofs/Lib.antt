pub mod Bodies
pub mod Judged
pub mod Loose
pub mod Passed
pub mod Places
pub mod Reading
pub mod Whole
pub mod Written
