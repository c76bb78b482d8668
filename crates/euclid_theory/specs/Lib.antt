pub mod Division
pub mod Gcd
pub mod Cofactors
pub mod Greatest
pub mod Defined
