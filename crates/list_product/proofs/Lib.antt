pub mod Judged
pub mod Products
