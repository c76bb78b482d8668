pub mod Answers
pub mod OrZero
pub mod Tried
pub mod Signed
pub mod Euclid
pub mod LastStep
