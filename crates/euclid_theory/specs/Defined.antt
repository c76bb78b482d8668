-- The h and the number of rounds that document 01 defines for two lists f and g, by its rounds as a relation, however they are computed.
--     Head             what document 01 says of h: coefficients, of naive degree its extent, with last word 1
--     MonicOf s h      h is the list whose scaled form is s, made to have last word 1: its scaled form is a constant times s
--     TheGcd f g h k   from the pair x = scaled form of g, y = scaled form of f, k rounds lead to a last x; h is the list of that x,
--                      made to have last word 1
-- Theorems: gcd-is-the, the GCD's h and rounds are these; gcd-only, and no others are.
-- Assumes nothing.
use Rattle.std.specs.Prelude.{◌≡◌, List, ℕ, suc, get_or, length}
use Rattle.algebra.specs.Series.{C}
use Rattle.algebra.specs.Degree.{Degree}
use Rattle.algebra.specs.Rounds.{Rounds}
use Rattle.algebra.specs.PrimeField.{PrimeField, scalars}
use Rattle.lists.specs.Degrees.{naive_degree}
use Rattle.lists.specs.Lists.{Coefficients, scaled}

module _ (F : PrimeField) where
  open scalars F use {Carrier as K}
  open F.series.ring use {Carrier as S, mul as ◌*ˢ◌}

  infixl 70 ◌*ˢ◌
  pub record Head (h : List ℕ) : Type 0 where
    pub coefficients : Coefficients F h
    pub words : length h ≡ suc (naive_degree h)
    pub degree : Degree F.series (naive_degree h) (scaled F h)
    pub ends : get_or h (naive_degree h) 0 ≡ 1

  pub record MonicOf (s : S) (h : List ℕ) : Type 0 where
    pub unit : K
    pub form : scaled F h ≡ C F.series unit *ˢ s
    pub head : Head h

  pub record TheGcd (f g h : List ℕ) (rounds : ℕ) : Type 0 where
    pub last : S
    pub made : Rounds F.series (scaled F g) (scaled F f) rounds last
    pub is : MonicOf last h
