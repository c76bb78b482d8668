pub mod Convolution
pub mod Sums
