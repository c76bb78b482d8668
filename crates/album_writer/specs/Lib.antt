pub mod Cut
pub mod Calls
pub mod Internal
