-- Sequences in a commutative ring R, and the operations that make them the formal series.
--     Sequence R      a sequence of elements, from term 0 on
--     rest f          f without its first term
--     sadd, sneg      sum and negative, term by term
--     szero, sone     0, 0, 0, … and 1, 0, 0, …
--     cauchy f g      the product: term n is the sum of f_j · g_(n-j)
-- Theorems (specs/SequencesLaws):
--     cauchy_comm, cauchy_assoc, cauchy-add, cauchy-one     the product keeps the laws of a commutative ring
-- Assumes nothing.
use Rattle.std.specs.Prelude.{ℕ, zero, suc}
use Rattle.algebra.specs.Ring.{CommRing}

module _ (Rg : CommRing) where
  open Rg use {Carrier, zero as 𝟘, one as 𝟙, neg as ⊖◌, add as ◌⊕◌, mul as ◌⊗◌}

  infixl 65 ◌⊕◌
  infixl 70 ◌⊗◌
  infix 80 ⊖◌
  abbrev pub Sequence : Type 0
  Sequence = ℕ → Carrier

  abbrev pub rest : Sequence → Sequence
  rest f n = f (suc n)

  unfoldable pub sadd : Sequence → Sequence → Sequence
  sadd f g n = f n ⊕ g n

  unfoldable pub sneg : Sequence → Sequence
  sneg f n = ⊖ f n

  unfoldable pub szero : Sequence
  szero n = 𝟘

  unfoldable pub sone : Sequence
  sone zero = 𝟙
  sone (suc n) = 𝟘

  unfoldable pub cauchy : Sequence → Sequence → Sequence
  cauchy f g zero = f zero ⊗ g zero
  cauchy f g (suc n) = f zero ⊗ g (suc n) ⊕ cauchy (rest f) g n
