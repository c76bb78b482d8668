pub mod Power
pub mod Buffers
pub mod Kept
pub mod Alternating
pub mod Ready
pub mod Finish
