pub mod Weights
pub mod Products
