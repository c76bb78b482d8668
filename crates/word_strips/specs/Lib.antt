pub mod Strips
