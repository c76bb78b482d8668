pub mod Judged
pub mod Values
pub mod Weights
pub mod Products
pub mod Groups
pub mod Chunks
