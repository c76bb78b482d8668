pub mod Calls
pub mod Quotients
pub mod Internal
