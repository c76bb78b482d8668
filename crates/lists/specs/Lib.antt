pub mod Tabulate
pub mod Degrees
pub mod Lists
pub mod Operations
pub mod Refused
pub mod Padded
pub mod Words
pub mod Bytes
