pub mod Fields
pub mod Field
pub mod Calls
