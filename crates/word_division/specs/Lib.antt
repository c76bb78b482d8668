pub mod Reduction
