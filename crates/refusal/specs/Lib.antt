pub mod Limits
pub mod Refusal
pub mod Rank
pub mod Lowest
pub mod Contract
