pub mod Form
pub mod InT
pub mod Ordinary
