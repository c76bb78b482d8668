pub mod Puts
pub mod Digits
pub mod Degrees
pub mod Lines
pub mod Fits
pub mod Sound
pub mod Whole
pub mod Examples
