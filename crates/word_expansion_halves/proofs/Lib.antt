pub mod Split
pub mod Row
pub mod Parts
