pub mod Judging
pub mod Zeros
pub mod Power
pub mod Folds
pub mod Joining
pub mod Folding
pub mod Finish
