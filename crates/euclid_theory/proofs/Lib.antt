pub mod CofactorForms
pub mod Cofactors
pub mod Defined
pub mod Division
pub mod Gcd
pub mod Greatest
pub mod Loops
pub mod Powers
