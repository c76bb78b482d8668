pub mod Reciprocals
pub mod Blocks
pub mod Whole
