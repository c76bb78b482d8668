pub mod Parts
pub mod Lists
pub mod Numbers
pub mod Reading
pub mod Judged
pub mod Text
