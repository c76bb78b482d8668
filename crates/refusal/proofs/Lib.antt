pub mod Clauses
pub mod First
pub mod Rank
pub mod Answers
pub mod Lowest
