pub mod Remainders
pub mod Rows
pub mod Near
pub mod Steps
