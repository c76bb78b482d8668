pub mod Significant
pub mod Rounds
pub mod Partway
pub mod Written
pub mod Divided
pub mod Parts
