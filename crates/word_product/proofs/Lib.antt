pub mod Convolution
pub mod RowSums
pub mod Laying
pub mod Fields
