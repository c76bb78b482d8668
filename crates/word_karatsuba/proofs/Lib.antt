pub mod Words
pub mod Products
pub mod Karatsuba
pub mod Parts
