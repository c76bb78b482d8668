pub mod Albums
pub mod Greatest
pub mod Defined
