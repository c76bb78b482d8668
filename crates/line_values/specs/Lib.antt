pub mod Values
pub mod Calls
pub mod Internal
