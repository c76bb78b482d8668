pub mod FactorialLaws
pub mod Entries
pub mod InverseLaws
pub mod InverseEntries
pub mod Fronts
