pub mod Slices
pub mod Back
pub mod Written
pub mod Results
