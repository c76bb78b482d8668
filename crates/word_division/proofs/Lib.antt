pub mod Rows
pub mod Steps
pub mod LessProduct
pub mod Cut
pub mod Loops
pub mod Padded
pub mod Longer
