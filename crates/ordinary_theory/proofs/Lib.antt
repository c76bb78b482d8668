pub mod Form
pub mod InT
pub mod Ordinary
pub mod Lowered
pub mod Examples
