pub mod Text
pub mod Report
pub mod Calls
pub mod Internal
