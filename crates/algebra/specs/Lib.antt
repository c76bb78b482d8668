-- The mathematics that the engine stands on. Each file uses only files above it; each opens with a glossary. The laws that a definition
-- needs stand here too, in the files named Laws; all others in proofs/.
pub mod Ring
pub mod RingLaws
pub mod Prime
pub mod Residues
pub mod ResiduesLaws
pub mod Modular
pub mod ModularLaws
pub mod Zp
pub mod Sequences
pub mod SequencesLaws
pub mod Series
pub mod Polynomial
pub mod Evaluation
pub mod OneMinusT
pub mod Homogenise
pub mod Substitute
pub mod Sum
pub mod Degree
pub mod Division
pub mod Euclid
pub mod Rounds
pub mod Monic
pub mod Choose
pub mod PrimeField
pub mod Derivative
