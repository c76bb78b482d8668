pub mod Factorials
pub mod Inverses
