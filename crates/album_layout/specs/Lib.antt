pub mod Layout
pub mod Calls
pub mod Internal
pub mod Written
