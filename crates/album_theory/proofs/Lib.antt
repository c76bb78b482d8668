pub mod Albums
pub mod Ended
pub mod CommonDivisors
pub mod Greatest
pub mod Defined
