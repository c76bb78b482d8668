pub mod Loops
pub mod Horner
